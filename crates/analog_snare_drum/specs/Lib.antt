-- The definitions of `analog_snare_drum`.
pub mod AnalogSnareDrum
pub mod StrikeThenRun
pub mod AnyBlockLength
pub mod Excitation
