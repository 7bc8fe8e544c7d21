pub mod FieldLaws
pub mod FormatLaws
pub mod CallChains
pub mod Agreement
pub mod Promises
pub mod PatchTrips
pub mod SurfaceTrips
pub mod RoundTrips
