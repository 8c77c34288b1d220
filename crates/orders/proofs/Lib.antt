pub mod Below
pub mod OnceEach
pub mod Pairs
pub mod OrderTests
pub mod Admissible
