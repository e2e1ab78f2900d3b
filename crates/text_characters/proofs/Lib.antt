pub mod LeadLaws
pub mod OnesLaws
pub mod BegunLaws
pub mod CharLaws
pub mod FourLaws
pub mod OneAnswer
