pub mod TextHeads
