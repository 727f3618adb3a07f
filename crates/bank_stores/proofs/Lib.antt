pub mod MemberSlots
pub mod RunSlots
