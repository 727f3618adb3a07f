pub mod Known
pub mod At
