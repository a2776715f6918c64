pub mod Listings
pub mod RoundTrip
pub mod Located
pub mod Composed
pub mod Durable
pub mod Loads
