pub mod StepLaws
pub mod RoomLaws
pub mod UntilLaws
pub mod MarkLaws
pub mod StopLaws
pub mod SizeLaws
