pub mod ValuesTell
