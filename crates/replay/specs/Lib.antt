-- What programs that replay a file promise alike.
pub mod Behind
pub mod Running
