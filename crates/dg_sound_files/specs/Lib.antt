pub mod SoundFiles
