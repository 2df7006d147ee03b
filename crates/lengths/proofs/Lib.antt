pub mod CodingLaws
pub mod FieldLaws
