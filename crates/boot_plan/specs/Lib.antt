pub mod Form
pub mod Entry
pub mod View
pub mod Said
pub mod LineCause
pub mod PlanText
pub mod Range
pub mod Draft
