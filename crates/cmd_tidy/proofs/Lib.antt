mod Charts
mod ExactTexts
mod Firm
mod Schedules
mod Steps
