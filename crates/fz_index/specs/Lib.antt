pub use Rattle.fz_model.specs as of_model
