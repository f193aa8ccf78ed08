pub mod Numbers
pub mod Sockets
pub mod Rows
pub mod Links
pub mod Closing
