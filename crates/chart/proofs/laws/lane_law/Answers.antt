use Rattle.chart.proofs.Lanes.{send_of_message, same_place_on_lane}
use Rattle.chart.proofs.laws.lane_law.Goals as goal

pub returns-clause-message : goal.returns-clause-message
returns-clause-message c = send_of_message

pub returns-clause-once : goal.returns-clause-once
returns-clause-once c = same_place_on_lane
