pub mod AfterLaws
pub mod StandingLaws
