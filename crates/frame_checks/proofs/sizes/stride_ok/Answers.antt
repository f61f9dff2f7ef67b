-- `stride_ok` tests a plane's stride. Assumes nothing.
use Rattle.frame_checks.proofs.Accepted.{four_cols_fit}
use Rattle.frame_checks.proofs.sizes.stride_ok.Goals as goal

pub overflow_mul-s : goal.overflow_mul-s
overflow_mul-s c = four_cols_fit c.args.f c.args.chroma c.plane_of-s.ensures c.requires
