pub mod NPlaces
