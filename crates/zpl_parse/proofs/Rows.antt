-- The rules and the offsets, computed on rows.
mod Rules
mod EveryForm
mod NewForms
mod Offsets
