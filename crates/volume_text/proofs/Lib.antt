pub mod WideNames
mod LastFile
mod Lasts
mod GuidLists
mod Building
mod Counting
mod Fitting
mod Going
mod Saying
mod Expressions
mod Ending
mod OneLine
mod OneText
mod ReadBack
mod Wholeness
mod Completing
mod Overflowing
mod Closing
