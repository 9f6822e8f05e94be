-- Document 02, A2: the calendar, the table of its clock-change days, what the calendar's functions give, and what C is given of it.
pub mod Calendar
pub mod ChangeDays
pub mod Answers
pub mod Outcomes
