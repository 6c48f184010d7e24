pub mod ChartLemmas
pub mod GrowthLemmas
pub mod LineLemmas
pub mod OnceLemmas
pub mod RoomLemmas
pub mod SizeLemmas
pub mod TextLemmas
pub mod WordLemmas
