-- What is known of a stream's planes: their shapes. Assumes nothing.
use Rattle.pictures.specs.Shapes.{ShapeFits}
use Rattle.streams.specs.declared.job.Job.{Job}

-- luma's shape and chroma's
pub record Shaped (j : Job) : Type 0 where
  pub luma : ShapeFits j.l
  pub chroma : ShapeFits j.c
