pub mod OrdersOut
pub mod RowsRead
pub mod LeadingAlong
