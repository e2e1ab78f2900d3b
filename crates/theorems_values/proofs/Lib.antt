pub mod TellLaws
pub mod KindLaws
pub mod EditionLaws
pub mod NestLaws
pub mod CallLaws
