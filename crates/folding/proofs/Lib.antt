pub mod ListLaws
pub mod ShapeLaws
pub mod ImageLaws
pub mod Coded
