pub mod AsciiFacts
