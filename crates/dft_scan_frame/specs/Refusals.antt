-- Why scan chains cannot be inserted: the first thing that is added and refused.
use Rattle.std.specs.Prelude.{◌≡◌, Option, None, Some}
use Rattle.dft_scan_frame.specs.declared.error.InsertError.{InsertError}
use Rattle.dft_scan_frame.specs.declared.error.InsertError.TheVariants.{NameClash, TooMany, Memory}

abbrev pub or_else : Option InsertError → Option InsertError → Option InsertError
or_else None later = later
or_else (Some error) later = Some error

-- the error is this refusal, but for want of memory
abbrev pub IsRefusal : Option InsertError → InsertError → Type 0
IsRefusal refused (NameClash name) = refused ≡ Some (NameClash name)
IsRefusal refused (TooMany what limit) = refused ≡ Some (TooMany what limit)
IsRefusal refused (Memory error) = Unit {0}
