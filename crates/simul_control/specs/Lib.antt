pub mod Places
pub mod PlaceFields
pub mod Laws
