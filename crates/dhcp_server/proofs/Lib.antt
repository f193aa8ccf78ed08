mod Adding
mod Mapping
