pub mod EdgesByWay
pub mod Added
pub mod WayByWay
pub mod LocationBytes
