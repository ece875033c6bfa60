-- The parts of an effect, and the parts of what is sent that change them.
pub mod Parts
pub mod Pairs
pub mod BlamedStretches
pub mod Stretches
pub mod Prefixes
pub mod Sendings
pub mod FaultyCodes
pub mod Values
