-- The bytes of a device of random bytes.
use Rattle.std.specs.Prelude.{ℕ, ◌+◌, ◌*◌, ◌/◌, ◌%◌, ◌^◌, length, replicate, true}
use Rattle.snap_disk.specs.Device.{Device}
use Rattle.snap_devices.specs.declared.noise.Noise.{Noise}

abbrev pub noise_len : Noise → ℕ
noise_len noise = noise.len

-- the place of the sequence that is drawn next
abbrev pub noise_drawn : Noise → ℕ
noise_drawn noise = noise.drawn

-- how many calls were made
abbrev pub noise_clock : Noise → ℕ
noise_clock noise = length noise.calls.items

-- its length is known, and nothing else
abbrev pub noise_device : Noise → Device
noise_device noise = record { bytes = replicate noise.len 0; is_open = λ p. true }

-- the number that is squared at this place
abbrev pub noise_root : ℕ → ℕ
noise_root place = (place * 6364136223846793005 % 2 ^ 64 + 1442695040888963407) % 2 ^ 64

-- a middle byte of the square
abbrev pub noise_byte : ℕ → ℕ
noise_byte place = noise_root place * noise_root place % 2 ^ 64 / 2 ^ 32 % 256
