pub mod MadeIn
