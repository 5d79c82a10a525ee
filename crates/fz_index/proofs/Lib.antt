pub use Rattle.fz_model.proofs as of_model
