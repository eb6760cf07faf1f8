-- The definitions of `analog_bass_drum`.
pub mod AnalogBassDrum
pub mod StrikeThenRun
pub mod AnyBlockLength
pub mod HeldDecay
pub mod Excitation
