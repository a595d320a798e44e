-- What a boot is, in the order in which to read it: scripts that run, the machine of each phase with its steps, choice and run, the whole boot, its text, and what holds of every run. PI 1.8, volumes 1 and 2.
-- A script that runs, in either phase.
pub mod Frames
-- What its registers hold.
pub mod Registers
-- What an action does: what both phases share.
pub mod Effect
-- Temporary RAM, RAM and the mapped volumes of a plan.
pub mod PlanBoard
-- The machine of PEI.
pub mod PeiMachine
-- What an action of a PEI script does.
pub mod PeiAction
-- The volumes that a call reports.
pub mod Reporting
-- How far a PEIM has come.
pub mod PeimState
-- Which PEIM may start.
pub mod Eligible
-- The next PEIM.
pub mod PeiChoice
-- One step of PEI.
pub mod PeiStep
-- PEI from its opening to its end.
pub mod PeiRun
-- The machine of DXE.
pub mod DxeMachine
-- What an action of a DXE script does.
pub mod DxeAction
-- The volumes that DXE discovers.
pub mod Discovery
-- By what a driver may start.
pub mod DriverLicence
-- The next driver, and its group.
pub mod DxeChoice
-- One step of DXE.
pub mod DxeStep
-- DXE from the hand-off to its end.
pub mod DxeRun
-- The whole boot, and its result.
pub mod BootRun
-- The printed lines, word by word.
pub mod Text
-- The lists that are printed after a run.
pub mod Listing
-- What an audit prints.
pub mod Audit
-- What a machine that runs keeps.
pub mod MachineFacts
-- Each start has its licence, and no module starts twice but one registered for shadow.
pub mod Licence
-- The move changes no PPI, notification or other HOB.
pub mod Unchanged
-- The GUIDs that an event may change.
pub mod EventGuids
-- How many evaluations a run may take.
pub mod EvaluationBound
-- A run in which any eligible module may be the next.
pub mod FreeRun
