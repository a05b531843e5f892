pub mod Laying
pub mod Nodes
