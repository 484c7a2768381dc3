pub mod SlotLaws
pub mod InsnLaws
pub mod TextLaws
pub mod DecodeLoop
pub mod Injective
pub mod OneOutcome
