pub mod Lexed
pub mod Shut
pub mod Followed
pub mod Seams
pub mod Given
pub mod Respelt
pub mod Mends
pub mod MendedLaws
