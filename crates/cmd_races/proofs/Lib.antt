pub mod JudgedLemmas
pub mod RefusedLemmas
pub mod SchedulesLemmas
