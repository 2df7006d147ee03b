pub mod Available
