pub mod ChainLaws
pub mod WriteLaws
pub mod StemLaws
pub mod CycleLaws
