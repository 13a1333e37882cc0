mod Metres
