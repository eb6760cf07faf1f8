-- The examples of `worked_examples` that are theorems.
mod Table
