-- Lemmas that answers take.
mod Apart
