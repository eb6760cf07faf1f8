-- The definitions of `trigger_pulse`.
pub mod TriggerPulse
