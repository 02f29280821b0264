pub mod PlaceChanges
