-- The definitions of `parameter_interpolator`.
pub mod ParameterInterpolator
