pub mod NPlaceLaws
pub mod NListLaws
pub mod WordLaws
pub mod CountLaws
