pub mod Item
pub mod Grammar
pub mod Reports
pub mod AsRead
pub mod Taking
