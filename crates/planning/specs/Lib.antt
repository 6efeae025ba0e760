pub mod MasksTold
pub mod Slotted
pub mod Plans
