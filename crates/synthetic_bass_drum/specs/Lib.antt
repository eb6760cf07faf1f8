-- The definitions of `synthetic_bass_drum`.
pub mod Click
pub mod AttackNoise
pub mod Transient
pub mod AnyBlockLength
