-- The demands of what the calls return, over their contracts, and the planners that are shut out.
pub mod Admitted
pub mod PlanCall
pub mod ArrivalCall
pub mod ArrivalCalls
pub mod Minutes
pub mod HostReads
pub mod DeskCall
pub mod DeskCalls
pub mod ShutOut
pub mod SheetCall
pub mod Margins
pub mod Gates
