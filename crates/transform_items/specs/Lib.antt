pub mod Transforms
pub mod TransformLaws
pub mod ArgumentLaws
pub mod RecordLaws
