pub mod StepLaws
pub mod BoundaryLaws
