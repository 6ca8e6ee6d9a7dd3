pub mod CallViews
pub mod Printed
pub mod Replies
