-- What is known of a body patch before its first byte is written.
use Rattle.std.specs.Prelude.{◌≡◌, true, false, List, ℕ, ◌≤◌, ◌<◌, length}
use Rattle.format.specs.declared.Layout.{Layout}
use Rattle.footer.specs.Finalize.{size_limit}
use Rattle.image.specs.Sections.{functions_in}
use Rattle.image.specs.Functions.{func_of}
use Rattle.image.specs.Admitted.{Admitted}
use Rattle.edits.specs.Fit.{fields_fit}
use Rattle.function_checks.specs.Checks.{from_nothing, moved_past_body, size_fits}

-- a patch that is not refused, in a buffer of `room` bytes
pub record Accepted (l : Layout) (s : List ℕ) (id : ℕ) (body : List ℕ) (room : ℕ) : Type 0 where
  pub admitted : Admitted l s
  pub known : id < functions_in s
  pub some : from_nothing (func_of l s id).size (length body) ≡ false
  pub exact : room ≡ moved_past_body l s id body (length s)
  pub limit : room ≤ size_limit
  pub sized : size_fits l s id body ≡ true
  pub fields : fields_fit l s (moved_past_body l s id body) ≡ true
